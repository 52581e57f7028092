-- What the positions of a file are written as in definitions.
pub mod Positions
