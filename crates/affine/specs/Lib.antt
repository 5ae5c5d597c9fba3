-- The matrix by rotations.
pub mod Rotations
