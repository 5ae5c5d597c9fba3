-- The steps of the check of an opening.
pub mod Steps
