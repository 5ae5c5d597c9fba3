-- The bounds that lean on those of specs/Bounds.
pub mod Bounds
