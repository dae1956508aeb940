-- Laws that the functions' proofs share.
pub mod Gathering
pub mod ShareAnswers
pub mod Secrets
pub mod VerdictAnswers
pub mod Turns
pub mod Products
pub mod Judgements
