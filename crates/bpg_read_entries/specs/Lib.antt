-- What the readers of the extension block answer.
pub mod Entries
pub mod Blocks
