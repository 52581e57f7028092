-- The numbers of a BPG file that are coded in bits (document 01, "Numbers in the file") as codecs, and what the calls' answers say.
pub mod BitNumbers
pub mod Answers
pub mod Requirements
