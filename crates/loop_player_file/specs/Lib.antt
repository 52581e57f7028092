-- The frame of a file at a time.
pub mod Files
pub mod Requirements
