-- A card as code meets it.
pub mod Reading
