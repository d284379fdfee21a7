pub mod FormerLaws
pub mod Theorem
