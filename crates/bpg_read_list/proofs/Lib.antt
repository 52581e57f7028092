-- Laws of a file's list.
pub mod FixedLaws
pub mod Listing
