-- The work slice as scratch, and how answers follow from tests.
pub mod Scratch
pub mod Each
pub mod Clears
