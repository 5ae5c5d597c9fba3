-- Theorems on card text. Of any scheme: what is written is read back, and the end of a text that is too long has no part in its answer (Cards); what
-- the program prints (CardOutput). Of document 01's set: BaseCards, and proofs/BaseCards.
pub mod Cards
pub mod CardOutput
pub mod BaseCards
