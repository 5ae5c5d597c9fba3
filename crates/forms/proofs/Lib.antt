-- A party's row, where the numbers in hand are right, and the sum of the rows that an opening states.
pub mod Party
pub mod Sums
