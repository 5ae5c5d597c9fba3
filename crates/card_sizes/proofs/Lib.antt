-- The law that the proof cites.
mod Laws
