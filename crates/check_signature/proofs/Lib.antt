-- The laws that the proofs cite.
mod Execution
mod Parts
mod Hashes
pub mod Answers
