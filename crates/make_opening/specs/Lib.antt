-- The steps of opening an execution.
pub mod Steps
