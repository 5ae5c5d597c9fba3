-- What the executions of one signature have in common.
pub mod Given
