-- Laws of reading a file.
pub mod AssembledLaws
pub mod CodedSize
pub mod Filling
pub mod GivenLaws
pub mod FileLaws
pub mod Requirements
