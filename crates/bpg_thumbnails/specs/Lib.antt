-- The deep check: a file's thumbnails, and theirs.
pub mod Thumbnails
pub mod Calls
pub mod Answers
pub mod Nested
pub mod Requirements
