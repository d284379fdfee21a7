pub mod AcceptedLaws
pub mod NamedLaws
