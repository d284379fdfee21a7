pub mod Head
pub mod Table
pub mod Read
pub mod Walk
