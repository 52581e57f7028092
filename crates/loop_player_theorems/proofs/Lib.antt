-- The proof.
pub mod Requirements
