-- Laws of writing the canonical record over its file.
pub mod ContentLaws
pub mod FileLaws
pub mod ComparisonLaws
