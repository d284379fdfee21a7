pub mod Agreement
pub mod Lookup
