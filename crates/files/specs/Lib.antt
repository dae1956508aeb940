-- What the contracts on files cite.
pub mod Answer
