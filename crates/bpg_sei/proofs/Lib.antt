-- The laws of SEI messages.
pub mod StepLaws
pub mod MessageLaws
pub mod AnswerLaws
pub mod Refusals
pub mod Range
