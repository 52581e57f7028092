-- Laws of surveying a file.
pub mod HeadOf
pub mod EntryBlock
pub mod ContentSteps
pub mod BodyChain
pub mod BodyLaws
pub mod GivenLaws
pub mod FileRead
pub mod Walking
