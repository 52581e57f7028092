-- A file edited in place is the file of an edited content.
pub mod Agreement
pub mod EntryEdits
pub mod BlockEdits
pub mod ContentEdits
pub mod CanonicalEdits
pub mod Requirements
pub mod WrongAnswers
