-- Laws of judging a record.
pub mod EntryLaws
pub mod ConsistentLaws
pub mod ContentLaws
