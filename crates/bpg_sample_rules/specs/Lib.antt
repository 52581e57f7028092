-- Samples after decoding: the rules of one sample, over planes as lists, for every depth at once.
pub mod Nearest
pub mod Rules
pub mod Planes
pub mod Examples
pub mod Requirements
