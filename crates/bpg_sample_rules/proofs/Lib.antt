-- The laws of the rules, each once, over m or the depth.
pub mod Nearest
pub mod Depths
pub mod Luma
pub mod Planes
pub mod Filling
pub mod Examples
pub mod Requirements
