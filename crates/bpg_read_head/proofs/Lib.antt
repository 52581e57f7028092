-- Laws of the readers of the head.
pub mod FlagLaws
pub mod SizeLaws
pub mod HeadSteps
pub mod HeadLaws
