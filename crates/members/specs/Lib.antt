pub mod Units
pub mod Class
pub mod Tables
pub mod Limits
pub mod Sizes
pub mod Finding
pub mod Ordered
pub mod Assembly
