pub mod Masks
pub mod Without
