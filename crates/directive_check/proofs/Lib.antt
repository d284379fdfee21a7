pub mod DirectiveRecordLaws
