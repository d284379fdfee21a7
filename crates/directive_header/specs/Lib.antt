pub mod Directives
pub mod Fields
