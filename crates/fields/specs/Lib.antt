-- Where the fields of a layout lie.
pub mod Offsets
