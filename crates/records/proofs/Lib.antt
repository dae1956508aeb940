-- Laws that the functions' proofs, here and above, share.
pub mod Posted
pub mod ProperKeys
