pub mod FieldLemmas
pub mod ReadingLaws
pub mod RecordLaws
