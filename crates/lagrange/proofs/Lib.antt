-- Laws for proofs of functions.
pub mod Products
pub mod Laws
