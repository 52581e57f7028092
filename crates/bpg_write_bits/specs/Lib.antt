-- The bits of a header, gathered to be written.
pub mod BitBuffer
