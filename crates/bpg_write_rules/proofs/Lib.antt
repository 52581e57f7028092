-- Laws of the tests of a header.
pub mod FlagLaws
