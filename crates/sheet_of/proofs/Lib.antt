pub mod SheetOfLaws
pub mod ReadLaws
pub mod ListsLaws
pub mod OwnRows
