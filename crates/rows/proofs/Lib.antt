pub mod Bools
pub mod BelowLaws
pub mod SameLaws
pub mod PairedLaws
pub mod JoinedLaws
pub mod RemainingLaws
pub mod Kit
