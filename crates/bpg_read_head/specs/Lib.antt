-- What the readers of the head answer.
pub mod FlagBytes
pub mod Sizes
pub mod Heads
