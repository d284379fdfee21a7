pub mod AreaTableLaws
pub mod StateLaws
