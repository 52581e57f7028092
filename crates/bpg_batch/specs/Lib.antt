-- The hourly batch: files that stand in one buffer.
pub mod Batches
pub mod Requirements
