pub mod FaultLaws
pub mod RecordLaws
