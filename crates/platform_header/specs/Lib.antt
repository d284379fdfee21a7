pub mod Platforms
