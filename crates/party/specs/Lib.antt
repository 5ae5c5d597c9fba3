-- Hashes of the parties' seeds.
pub mod Party
