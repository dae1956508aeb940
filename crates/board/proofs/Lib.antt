-- Proofs of what specs/Claims.antt states, and the laws that the code's proofs share.
pub mod Searches
pub mod Order
pub mod Places
pub mod Chunks
pub mod KeyRecords
pub mod LineRun
pub mod Steps
