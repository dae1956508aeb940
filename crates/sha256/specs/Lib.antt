-- SHA-256 as FIPS 180-4 defines it, section by section; what `digest` answers; and what is claimed of the definition.
pub mod Word
pub mod Constants
pub mod Padding
pub mod Hash
pub mod Answer
pub mod Claims
