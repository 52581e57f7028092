-- The metadata of a file exported as JPEG segments.
pub mod Calls
pub mod Steps
pub mod Requirements
