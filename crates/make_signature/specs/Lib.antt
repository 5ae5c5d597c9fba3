-- What the steps of signing are given.
pub mod Given
