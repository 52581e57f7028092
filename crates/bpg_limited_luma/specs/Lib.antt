-- Limited luma by a table.
pub mod Tables
pub mod Requirements
