pub mod Tallies
pub mod Share
