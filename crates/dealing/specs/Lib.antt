-- What a dealing is, as it is written and as it is judged, and what is claimed of it.
pub mod Dealing
pub mod Columns
pub mod Claims
