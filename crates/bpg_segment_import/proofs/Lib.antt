-- The laws of import.
pub mod ChunkLaws
pub mod CopyLaws
pub mod CallLaws
