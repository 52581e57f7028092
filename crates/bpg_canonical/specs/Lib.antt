-- What canonicalizing two files answers.
pub mod Comparisons
