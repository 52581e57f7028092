-- What reading and writing hex digits answers.
pub mod HexLines
