-- The proofs of the figures in specs/.
pub mod ByHand
pub mod OwnTable
pub mod EqualKeys
