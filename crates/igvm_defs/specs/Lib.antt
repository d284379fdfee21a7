pub mod Refusals
pub mod Kinds
pub mod Platforms
pub mod Revision
pub mod Vtls
