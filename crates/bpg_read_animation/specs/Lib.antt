-- What the reader of the animation control answers.
pub mod Animations
