-- AES-128: the definitions that contracts cite (Aes), and examples of the standard. Laws stand in proofs/.
pub mod Aes
pub mod Examples
