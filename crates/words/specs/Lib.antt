-- What every other crate cites: choice, lists, ordered checks, words and records of bytes, and what is claimed of them.
pub mod Choice
pub mod Lists
pub mod Numbers
pub mod Checks
pub mod Bytes
pub mod Claims
