pub mod AnswerLaws
pub mod SameRegion
pub mod StrictLaws
pub mod ReportLaws
pub mod OwnerLaws
pub mod BaseLaws
pub mod BaseRangeLaws
pub mod NumberLaws
