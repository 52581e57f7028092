-- Laws of the readers of HEVC headers.
pub mod PaddingLaws
pub mod HeaderLaws
pub mod BothHeaderLaws
