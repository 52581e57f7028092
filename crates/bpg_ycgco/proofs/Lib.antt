-- YCgCo.
pub mod Differences
