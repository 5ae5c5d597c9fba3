-- Polynomials over any field of characteristic 2. Definitions: Index, Field, Sum, Poly, Roots, Lagrange, Weights, Balance, Parties. The
-- theorems that others cite: clash_or_merged (Index), root_bound (Roots), interpolates and interpolates_unique (Interpolation),
-- basis_by_weight (Weights); in proofs/ all_roots (Roots), product_check and product_complete (ProductCheck), execution_check (Parties).
pub mod Index
pub mod Field
pub mod Sum
pub mod Poly
pub mod Roots
pub mod Lagrange
pub mod Interpolation
pub mod Weights
pub mod Balance
pub mod Parties
