mod WordLaws
mod InLaws
pub mod AgreementLaws
pub mod LookupLaws
