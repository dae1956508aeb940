-- The scope paper's figures by hand as one table, a table of one's own in figures, and equal keys.
pub mod ByHand
pub mod OwnTable
pub mod EqualKeys
