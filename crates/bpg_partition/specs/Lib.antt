-- The partition of a file into head, entry heads, payloads, HEVC headers and data.
pub mod Partitions
pub mod Pieces
pub mod Examples
pub mod Requirements
