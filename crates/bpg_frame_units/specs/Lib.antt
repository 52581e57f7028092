-- What units say of frames, and the frames of data.
pub mod Units
pub mod Frames
pub mod Answers
pub mod Examples
