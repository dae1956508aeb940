-- A law of arrays that a loop fills from another array, and the proofs of what specs/Claims.antt states.
pub mod Mapped
pub mod Refusals
