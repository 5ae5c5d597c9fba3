-- The laws that the proof cites.
pub mod Laws
