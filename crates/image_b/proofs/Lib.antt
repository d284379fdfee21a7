pub mod ImageB
pub mod Made
