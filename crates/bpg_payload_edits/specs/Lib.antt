-- Payloads edited in place.
pub mod Edits
pub mod Requirements
