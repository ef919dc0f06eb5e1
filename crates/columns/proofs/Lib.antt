pub mod Stamps
pub mod Written
