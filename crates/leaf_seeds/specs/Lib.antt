-- The seeds that `leaf_seeds` gives, as its callers use them.
pub mod Seeds
