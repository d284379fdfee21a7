pub mod BaseCheckExamples
pub mod BaseCheckLaws
pub mod PowerExamples
pub mod PowerLaws
