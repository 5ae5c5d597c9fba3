-- Laws for proofs of functions: counts, loops that fill a slice, parts that are lent and come back, rows, arrays.
pub mod Counts
pub mod Fill
pub mod Put
pub mod Rows
pub mod Array
pub mod Layouts
pub mod Numbers
