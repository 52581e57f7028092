-- The line that shows what was read of a file, and the buffer in which it is gathered.
pub mod Text
pub mod Line
pub mod LineBuffer
