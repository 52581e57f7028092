-- The laws of reading a run.
pub mod SegmentLaws
pub mod ChunkLaws
pub mod RunLaws
