pub mod Share
pub mod Totals
