pub mod HeadersLaws
pub mod SheetLaws
pub mod OwnerLaws
pub mod Theorem
pub mod Examples
pub mod Needed
