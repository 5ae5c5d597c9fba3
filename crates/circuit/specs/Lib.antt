-- AES over shares: the definitions that contracts cite, and what is asked of a circuit (Law). What is proved of them stands in proofs/.
pub mod Circuit
pub mod Law
