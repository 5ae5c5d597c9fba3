-- What is written for a line of key and plaintext.
pub mod Pairs
