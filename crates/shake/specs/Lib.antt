-- SHAKE128 (Shake128), and what stands behind a message (Padding).
pub mod Padding
pub mod Shake128
