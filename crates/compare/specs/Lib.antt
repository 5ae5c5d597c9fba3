-- The lowest number that fails a test.
pub mod Lowest
