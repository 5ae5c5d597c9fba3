-- The laws that the proof cites.
mod Checked
