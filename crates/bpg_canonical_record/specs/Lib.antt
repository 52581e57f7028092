-- The canonical record.
pub mod Records
