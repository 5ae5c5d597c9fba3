-- The laws that the proofs cite: of the scan for a line's end, of the lines so found, of the check, and of the loop that reads lines.
mod Laws
mod Found
mod Checked
mod Reading
