-- The laws that the proofs cite, here and above.
pub mod Laws
