-- What is claimed of the calls for C and Rust.
pub mod Theorems
