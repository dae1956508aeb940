-- The groups, their elements, powers in them, and what is claimed of these.
pub mod Power
pub mod Element
pub mod Table
pub mod Answer
pub mod Claims
