-- Constant weights for the points 0 to 20 and 0 to 40, in the field of 2^48 elements.
pub mod Weights48
