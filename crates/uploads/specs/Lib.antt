pub mod Upload
pub mod Desk
pub mod Query
pub mod History
pub mod Taken
