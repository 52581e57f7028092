-- A reading as a list of numbers, and what listing it answers.
pub mod Numbers
pub mod Calls
