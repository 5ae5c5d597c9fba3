-- Calls that begin with tests, and an answer as one number.
pub mod Tests
pub mod Code
