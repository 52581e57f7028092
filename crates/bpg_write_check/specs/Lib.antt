-- What judging a record answers.
pub mod Check
