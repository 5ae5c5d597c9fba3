-- Laws that the proofs of `value`, `decode` and `encode` cite.
mod Laws
