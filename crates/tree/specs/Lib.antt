-- Laws of the seeds of the leaves, for callers.
pub mod Rows
