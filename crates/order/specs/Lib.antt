pub mod Reordered
pub mod Demand
pub mod Ranges
pub mod Owners
pub mod Strict
pub mod Sheets
pub mod Weakened
