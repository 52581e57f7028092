-- What reading a file answers, all of it or on from its head.
pub mod Assembled
pub mod Calls
pub mod Requirements
