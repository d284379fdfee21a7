pub mod PlainLaws
pub mod AreaRowLaws
