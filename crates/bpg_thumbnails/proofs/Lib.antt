-- The laws of the deep check.
pub mod EachLaws
pub mod LevelLaws
pub mod Passing
pub mod Faults
pub mod Order
pub mod Requirements
