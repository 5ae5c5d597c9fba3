-- The theorems on the product check: that known roots are all (Roots), of one execution (ProductCheck), and on its shares (Parties).
pub mod Roots
pub mod ProductCheck
pub mod Parties
