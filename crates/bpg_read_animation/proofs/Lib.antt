-- Laws of the reader of the animation control.
pub mod AnimationLaws
