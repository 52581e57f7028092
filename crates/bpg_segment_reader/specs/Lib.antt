-- The payloads found in a run.
pub mod Places
pub mod Runs
