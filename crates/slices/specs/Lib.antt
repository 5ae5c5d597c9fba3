-- Lists of bytes: definitions that contracts cite (Lists, Numbers, Layout) and the laws that proofs of all crates cite.
pub mod Lists
pub mod Xor
pub mod Tab
pub mod Tests
pub mod Bytes
pub mod Sums
pub mod Numbers
pub mod Layout
pub mod Compare
pub mod Found
