-- Laws of the scan.
pub mod FirstPattern
pub mod ScanLaws
pub mod EndedLaws
