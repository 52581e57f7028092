-- Premultiplied colour recovered.
pub mod Quotients
pub mod Reciprocals
