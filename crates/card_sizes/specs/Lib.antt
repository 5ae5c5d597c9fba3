-- How many lines a card has, and how long it is.
pub mod Lines
