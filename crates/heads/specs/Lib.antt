-- The parts of a head.
pub mod Heads
