-- The laws of segments.
pub mod TestLaws
pub mod SegmentLaws
pub mod ChunkLaws
pub mod RunLaws
pub mod ExportLaws
pub mod Examples
pub mod Requirements
