-- Boards by their figures, and what is claimed of them.
pub mod Boards
pub mod Claims
pub mod EqualKeys
