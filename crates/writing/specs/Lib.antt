pub mod File
pub mod Writing
pub mod Sizes
pub mod RoundTrips
