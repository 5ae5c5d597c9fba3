-- How a signature's frames are made, step by step, and the loops that do it.
pub mod Steps
pub mod Loop
-- that these steps make the signature of the definitions
pub mod Sums
pub mod Own
pub mod Frames
pub mod Kept
pub mod Witness
pub mod Execution
pub mod Passes
pub mod Made
