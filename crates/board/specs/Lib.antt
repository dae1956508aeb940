-- What a board is, what is refused before verdicts, and what is claimed of its keys and lines.
pub mod Search
pub mod Board
pub mod Loops
pub mod Sorted
pub mod Claims
