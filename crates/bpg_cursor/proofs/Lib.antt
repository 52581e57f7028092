-- Laws of the cursor.
pub mod StepLaws
pub mod CursorLaws
