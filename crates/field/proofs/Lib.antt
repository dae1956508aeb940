-- Proofs of what specs/Claims.antt states, and the laws that they and the code's proofs share.
pub mod Modular
pub mod Primality
pub mod Inverses
pub mod Residues
pub mod Loops
pub mod Ring
pub mod Solver
pub mod Reciprocal
pub mod Divided
pub mod Weights
pub mod LinearForm
pub mod Interpolate
pub mod AtZero
pub mod Transfer
pub mod Theorems
