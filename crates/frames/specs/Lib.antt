-- The frames of a signature: how long they are and where they lie.
pub mod Frames
