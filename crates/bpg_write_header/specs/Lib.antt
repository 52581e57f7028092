-- What the functions that gather a header's bits add to a buffer.
pub mod Adding
