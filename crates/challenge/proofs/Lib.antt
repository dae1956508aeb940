-- Proofs of what specs/Claims.antt states, and the laws that they and the functions' proofs share.
pub mod Buffers
pub mod Digests
pub mod Challenges
pub mod Figures
