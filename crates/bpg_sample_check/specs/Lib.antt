-- The judgement of a call on samples, and its answer.
pub mod Judgement
pub mod Answers
pub mod Requirements
