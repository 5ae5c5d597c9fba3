-- A line in its room.
pub mod Line
