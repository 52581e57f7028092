-- Laws of the entries of a record.
pub mod UsedLaws
