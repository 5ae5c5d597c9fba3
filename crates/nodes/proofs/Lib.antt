-- Laws that the proofs cite, here and above.
mod Input
pub mod Halves
