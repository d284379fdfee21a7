pub mod Initializations
pub mod Fields
