-- The definitions that the contracts of `lagrange` cite.
pub mod Values
