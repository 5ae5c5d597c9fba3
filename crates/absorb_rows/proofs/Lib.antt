-- The law that the proof cites.
pub mod Laws
