-- HEVC data as NAL units, and the header of a unit.
pub mod Search
pub mod Units
pub mod Endings
pub mod Whole
pub mod Headers
pub mod Examples
