-- Proofs of what specs/Claims.antt states, and the laws that they and the functions' proofs share.
pub mod Entries
pub mod Settled
pub mod Judged
pub mod KeyTwice
pub mod DistinctKeys
pub mod Arrays
pub mod Written
