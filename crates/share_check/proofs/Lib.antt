-- The laws that the proofs cite.
mod Halves
mod Rows
