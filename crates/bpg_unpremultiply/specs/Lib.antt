-- Premultiplied colour recovered: the inner steps.
pub mod Reciprocal
pub mod Given
