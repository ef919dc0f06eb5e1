pub mod Pairing
pub mod Orderly
pub mod Demand3
pub mod WallsToB
pub mod Needed
