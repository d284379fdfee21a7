pub mod HeaderLaws
pub mod FoundLaws
pub mod TurnLaws
pub mod CountLaws
