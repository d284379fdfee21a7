pub mod Trimmed
pub mod Answers
pub mod Beside
pub mod Weakened
pub mod Sheets
