-- The scheme's definitions (crate banquet) hold for any parameter set, hash and circuit. Here they are computed for toys, and compared with what
-- vectors/toy.py gives: a plain implementation by another hand, written from document 01 by someone who had read the definitions before.
pub mod Toy
pub mod Shared
pub mod Unfolding
pub mod Rows
pub mod Hold
