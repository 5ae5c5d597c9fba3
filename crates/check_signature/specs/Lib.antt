-- The steps of the check of a signature.
pub mod Steps
