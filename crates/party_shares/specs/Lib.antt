-- What the parties of an execution have in common.
pub mod Given
