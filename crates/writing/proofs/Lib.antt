pub mod Parts
pub mod Lengths
pub mod Called
pub mod Resent
pub mod Reread
pub mod RoundTrips
