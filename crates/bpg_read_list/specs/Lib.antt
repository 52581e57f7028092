-- The numbers of a file's list that its survey has.
pub mod Surveyed
