-- A dealing's records as lines and as columns.
pub mod Lines
pub mod Columns
