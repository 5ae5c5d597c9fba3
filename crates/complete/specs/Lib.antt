-- Rows completed.
pub mod Complete
pub mod Rows
