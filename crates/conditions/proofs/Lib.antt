-- Proofs of what specs/Claims.antt and specs/EqualKeys.antt state.
pub mod Answers
pub mod Known
pub mod Conditions
pub mod EqualKeys
