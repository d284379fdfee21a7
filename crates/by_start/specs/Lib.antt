pub mod ByStart
pub mod Kept
