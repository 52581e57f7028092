-- What reading answers to C and Rust.
pub mod Calls
