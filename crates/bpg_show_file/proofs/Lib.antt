-- The cases of the summary; an example.
pub mod SummaryLaws
pub mod Examples
