-- What the scan of a unit answers.
pub mod Scans
