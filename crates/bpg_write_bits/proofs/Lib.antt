-- The laws of the bit buffer.
pub mod BitBufferLaws
