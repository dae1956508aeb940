-- What a proof of equal logarithms is, and what is claimed of it.
pub mod Equality
pub mod Claims
