-- The laws of decimal numbers, of the line buffer and of the line; examples.
pub mod DecimalLaws
pub mod LineBufferLaws
pub mod LineLaws
pub mod Examples
