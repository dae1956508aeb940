-- The ranks of plots, the picked list, and what is claimed of it.
pub mod Rank
pub mod Picked
pub mod Sorting
pub mod Claims
