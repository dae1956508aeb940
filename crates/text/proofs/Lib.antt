-- Laws of text written into a buffer, of decimal figures, of the lines, and the proofs of what specs/Claims.antt states.
pub mod Writing
pub mod Decimals
pub mod Dealers
pub mod Reports
pub mod Lengths
pub mod Example
