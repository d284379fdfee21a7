pub mod Bytes
pub mod Line
