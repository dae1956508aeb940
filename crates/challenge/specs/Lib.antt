-- Exponents of digests, hashed messages, challenges, and what is claimed of these.
pub mod Exponent
pub mod Message
pub mod Claims
