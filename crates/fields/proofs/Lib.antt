-- Laws for proofs of functions: a layout written field by field.
pub mod Wrote
