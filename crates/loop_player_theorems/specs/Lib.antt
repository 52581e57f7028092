-- What the two libraries give together.
pub mod Requirements
