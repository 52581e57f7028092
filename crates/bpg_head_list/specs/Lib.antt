-- What the list of a head answers.
pub mod Calls
