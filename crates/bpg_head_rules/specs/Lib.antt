-- What the head call answers, and what is claimed of it.
pub mod Calls
pub mod Requirements
