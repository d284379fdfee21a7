pub mod Readable
pub mod ReadLaws
pub mod NumberLaws
