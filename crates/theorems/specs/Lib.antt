-- The theorems. proofs/Base is to be read first: all that is stated of document 01's set, with its figures. The statements are written out, of any
-- scheme with its figures, in Demand3, Complete, and banquet's OpeningChecks and SignatureChecks. What they ask of a scheme is in Laws, and Sets shows it
-- of each set.
pub mod Laws
-- shares and keys
pub mod Wide
pub mod Seeds
pub mod Shares
pub mod Keys
-- demand 3
pub mod Demand3
pub mod GoodGiven
-- what is made with a good key is accepted
pub mod Opened
pub mod Honest
pub mod HonestProduct
pub mod Inputs
pub mod OpeningRead
pub mod OpeningComplete
pub mod Recomputed
pub mod SignatureFrame
pub mod FrameRecomputed
pub mod SignatureComplete
pub mod Complete
pub mod EmptyCard
-- the sets
pub mod Sets
