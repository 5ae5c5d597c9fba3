-- The definitions that the contracts of `lifts` cite.
pub mod Fields
