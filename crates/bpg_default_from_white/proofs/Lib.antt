-- Default colour from W.
pub mod Shifts
