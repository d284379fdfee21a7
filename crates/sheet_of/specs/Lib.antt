pub mod SheetOf
pub mod Offered
pub mod Lists
