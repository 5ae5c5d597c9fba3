-- What a part of a tape is, and how long.
pub mod Laws
