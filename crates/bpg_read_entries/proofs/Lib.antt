-- Laws of the readers of the extension block.
pub mod EntryLaws
pub mod LastEntry
pub mod BlockLaws
pub mod CheckedEntry
pub mod Ahead
