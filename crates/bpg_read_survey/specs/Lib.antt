-- What surveying a file answers: all that reading it finds but for the entries.
pub mod Given
pub mod Bodies
pub mod Surveys
