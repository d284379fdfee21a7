pub mod DirectiveLaws
