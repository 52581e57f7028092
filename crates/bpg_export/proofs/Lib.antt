-- Laws of the calls for C and Rust.
pub mod CallLaws
pub mod ReadTyped
pub mod Theorems
