pub mod InitializationLaws
