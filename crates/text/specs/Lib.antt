-- What `draw` prints, how it stands in a buffer, and what is claimed of it.
pub mod Text
pub mod Buffer
pub mod Report
pub mod Claims
