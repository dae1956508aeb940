-- A link of the chain of seasons, the chain itself, and what is claimed of chains.
pub mod Link
pub mod Chain
pub mod Claims
