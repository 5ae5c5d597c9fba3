-- What a read gave.
pub mod Outcome
