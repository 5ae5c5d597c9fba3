-- Laws for proofs of functions.
pub mod Laws
pub mod Right
