-- Laws of the list of a head.
pub mod ListLaws
