-- The laws that the proof cites.
mod Writing
