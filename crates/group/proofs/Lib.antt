-- Proofs of what specs/Claims.antt states, and the laws that they and the code's proofs share.
pub mod Powers
pub mod Elements
pub mod Logarithm
pub mod Table
pub mod Turns
pub mod Answers
