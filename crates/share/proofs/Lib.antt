-- Proofs of what specs/Claims.antt states, and the laws that they and the functions' proofs share.
pub mod Settled
pub mod Keys
pub mod Shares
