-- The numbers of a BPG file that are coded in bytes (document 01, "Numbers in the file") as a codec, and where their refusals point.
pub mod Ue7
pub mod Places
