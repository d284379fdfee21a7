pub mod RangeLaws
pub mod RangeExamples
mod NearestLaws
mod PartLaws
