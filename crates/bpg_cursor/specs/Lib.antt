-- The cursor over a file's entries.
pub mod Cursors
