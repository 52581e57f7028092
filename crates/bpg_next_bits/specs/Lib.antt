-- The next bits of a region, in a word.
pub mod NextBits
