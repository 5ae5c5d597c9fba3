-- Laws for proofs of functions.
pub mod Picked
