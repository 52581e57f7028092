-- The laws of writing a run.
pub mod SizeLaws
pub mod WriteLaws
pub mod RunLaws
