-- The messages of a prefix SEI unit.
pub mod Messages
pub mod Steps
pub mod Examples
