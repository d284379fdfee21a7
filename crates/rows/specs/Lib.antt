pub mod Below
pub mod Rows
pub mod Same
pub mod Lists
pub mod Paired
pub mod Answered
