-- An execution's parties as a frame shows them.
pub mod Linear
pub mod Given
pub mod Frame
