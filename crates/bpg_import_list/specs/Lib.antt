-- A record from its list of numbers, and what writing from a list answers.
pub mod Fields
pub mod Calls
pub mod Typing
pub mod Theorems
