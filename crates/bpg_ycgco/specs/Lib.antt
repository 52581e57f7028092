-- YCgCo.
pub mod Given
