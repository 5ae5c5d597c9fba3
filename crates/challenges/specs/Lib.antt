-- Bounds of an execution's numbers.
pub mod Challenges
