-- What leans on the statements and laws of specs/: demand 3, of any scheme (Soundness), and all that is stated of document 01's set (Base).
pub mod Soundness
pub mod Base
