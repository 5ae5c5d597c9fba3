-- Laws that the proof cites.
mod Siblings
