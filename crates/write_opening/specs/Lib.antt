-- An opening's parts as they are written, and that together they are the opening of the definitions.
pub mod Written
pub mod Tapes
pub mod Columns
pub mod Opening
