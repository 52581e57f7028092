-- The laws of the call, and what it answers.
pub mod Laws
pub mod Requirements
