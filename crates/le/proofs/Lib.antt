pub mod LeLaws
pub mod BytesLaws
