pub mod BaseRanges
pub mod Nearest
