-- Numbers of 64 bits (Below), expressions of them that agree where they agree on bits (Bitwise), so chi on masked planes (Chi); theta, rho and pi
-- are linear (Linear); the steps of a round on planes, and the mask (Steps).
pub mod Below
pub mod Bitwise
pub mod Chi
pub mod Linear
pub mod Steps
