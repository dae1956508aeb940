-- Proofs of what specs/Claims.antt states, and the laws that they and the functions' proofs share.
pub mod Loops
pub mod Ranks
pub mod Order
pub mod Sorting
pub mod Ascending
pub mod Keys
pub mod Presence
pub mod Picked
pub mod Operation
pub mod FarFirst
pub mod Former
pub mod Ties
