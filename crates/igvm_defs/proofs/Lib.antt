pub mod Table
pub mod Runs
pub mod RefusalLaws
pub mod LengthLaws
pub mod KindLaws
pub mod VtlLaws
pub mod AnswerLaws
