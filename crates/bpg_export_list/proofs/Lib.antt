-- Laws of the lists of numbers, and of writing them.
pub mod NumberLaws
pub mod WriteLaws
