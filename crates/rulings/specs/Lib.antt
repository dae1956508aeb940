-- The files of a round, the ruling on them, and what is claimed of it.
pub mod Files
pub mod Ruling
pub mod Claims
