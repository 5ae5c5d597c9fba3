-- How the steps are worked out.
pub mod Steps
