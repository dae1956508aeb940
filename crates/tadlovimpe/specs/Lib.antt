-- The answers of the operations as figures, and what is claimed of them.
pub mod Figures
pub mod Claims
