pub mod Tables
pub mod Refusals
pub mod Codes
pub mod Site
pub mod Spectrum
pub mod Entries
pub mod Sizes
pub mod Order
