-- What the reader of a HEVC header's fields answers.
pub mod AllFields
pub mod Table
