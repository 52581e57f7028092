-- The parts of a file, how long they are, and what a plan says of them.
pub mod Layouts
pub mod FileParts
pub mod Plans
