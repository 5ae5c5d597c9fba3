-- Laws for the proofs of this crate's functions.
mod Laws
mod Each
