pub mod InitializationPass
