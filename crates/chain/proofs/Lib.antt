-- Proofs of what specs/Claims.antt states, and the laws that they and the functions' proofs share.
pub mod Written
pub mod Steps
pub mod Accepted
pub mod Groups
pub mod Extended
pub mod Digests
pub mod Example
