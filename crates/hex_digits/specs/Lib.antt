-- What holds of text in hexadecimal; banquet's Card defines it.
pub mod Hex
