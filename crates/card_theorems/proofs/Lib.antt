-- What leans on the laws of specs/CardOutput: that the card of a signed message is accepted (CardOutput), and all that is stated of document 01's set
-- (BaseCards).
pub mod CardOutput
pub mod BaseCards
