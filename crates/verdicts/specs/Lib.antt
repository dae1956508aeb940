-- Verdicts, the count of accepted dealings and the draw.
pub mod Shares
pub mod Verdict
pub mod Posted
pub mod Gathered
pub mod Added
pub mod Draw
