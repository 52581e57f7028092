-- The laws of adding bits, and of the bits of a header.
pub mod AddingLaws
pub mod HeaderLaws
