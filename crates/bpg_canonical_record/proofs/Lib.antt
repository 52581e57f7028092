-- Laws of the record with the canonical choices.
pub mod RecordLaws
