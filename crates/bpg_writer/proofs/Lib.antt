-- Laws of writing.
pub mod PutLaws
pub mod PartLaws
pub mod EmitLaws
pub mod FileLaws
