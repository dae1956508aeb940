-- Laws of a ruling, and the proofs of what specs/Claims.antt states.
pub mod Settings
pub mod Reached
pub mod Rulings
pub mod Theorems
