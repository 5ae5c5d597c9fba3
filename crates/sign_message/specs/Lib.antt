-- What signing is given.
pub mod Lengths
