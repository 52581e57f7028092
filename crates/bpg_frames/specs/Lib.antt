-- The frames of a file, and how long each one is shown.
pub mod Calls
pub mod Surveys
pub mod Requirements
