-- Calls whose last tests are those of the key.
pub mod Answers
