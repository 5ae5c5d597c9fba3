-- The laws that the proofs cite.
mod Seeds
mod Clears
mod Ranges
mod Call
