-- The scheme as definitions, of which every contract and theorem speaks. In the order of reading: a parameter set and its sizes (Shape, Figures), what the
-- scheme is built over (Scheme), the nine hash inputs (Hash), the tree of seeds (Tree), one execution (Execution, Signer), answers and keys (Answer,
-- Key), openings and signatures (Opening, Signature), the five calls (Calls), card text (Card), and what the tapes of all parties give (Extraction). Sets
-- has the parameter sets with their figures, and Cases the starred cases. What a seal is in document 01 is a signature here, and its draws are challenges.
pub mod Shape
pub mod Figures
pub mod Scheme
pub mod Hash
pub mod Tree
pub mod Execution
pub mod Signer
pub mod Answer
pub mod Key
pub mod Opening
pub mod Signature
pub mod Calls
pub mod Card
pub mod Extraction
pub mod Sets
pub mod Cases
-- That a check accepts exactly where all that it checks holds, as statements: proofs/ shows them, with the laws that they rest on.
pub mod Logic
pub mod OpeningChecks
pub mod SignatureChecks
