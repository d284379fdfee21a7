pub mod AreaTreeLaws
