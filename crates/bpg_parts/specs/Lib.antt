-- What asking for one entry answers, and what asking where the extension block lies.
pub mod Entries
pub mod Bounds
