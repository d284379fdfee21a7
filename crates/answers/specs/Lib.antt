pub mod Verdict
pub mod Strict
pub mod Report
pub mod Relocations
pub mod Owner
pub mod Numbers
pub mod Region
pub mod BaseRanges
