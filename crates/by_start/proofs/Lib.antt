pub mod OrderLaws
pub mod WalkLaws
pub mod LinkLaws
pub mod OrderedLaws
pub mod OwnerLaws
