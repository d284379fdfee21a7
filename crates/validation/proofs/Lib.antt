pub mod VerdictLaws
pub mod StartLaws
pub mod KeptLaws
