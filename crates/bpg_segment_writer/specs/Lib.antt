-- Three payloads written as a run of segments.
pub mod Sizes
