pub mod Determination
pub mod Outcome
pub mod Accepted
