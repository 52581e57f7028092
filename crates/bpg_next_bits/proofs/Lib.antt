-- Laws of the next bits.
pub mod WordLaws
pub mod NextBitsLaws
pub mod FieldLaws
