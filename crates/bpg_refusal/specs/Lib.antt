-- The refusals' numbers, and answers as outcomes of decoding.
pub mod Numbers
pub mod Outcomes
