pub mod AreaLaws
pub mod DirectiveReport
