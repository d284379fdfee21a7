pub mod Addresses
pub mod BaseChecks
pub mod Powers
