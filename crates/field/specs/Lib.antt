-- Residues modulo m, primes, fields, polynomials over them, and what is claimed of all these.
pub mod Residue
pub mod Prime
pub mod Algebra
pub mod Polynomial
pub mod Claims
