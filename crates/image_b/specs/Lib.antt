pub mod ImageB
pub mod Claims
pub mod Made
