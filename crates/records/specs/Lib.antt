-- Records by kind, the members' records, keys, and what is claimed of them.
pub mod Layout
pub mod Keys
pub mod Claims
