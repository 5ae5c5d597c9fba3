-- The laws that the proofs cite.
mod Lists
mod Laws
