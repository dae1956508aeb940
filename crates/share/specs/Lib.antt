-- What a share is, opened or added, as it is written and as it is judged, and what is claimed of it.
pub mod Share
pub mod Claims
