pub mod HeaderLaws
pub mod ListLaws
