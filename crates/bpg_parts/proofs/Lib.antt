-- Laws of the parts of a file.
pub mod PartLaws
pub mod BoundsLaws
