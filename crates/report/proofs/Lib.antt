pub mod Printing
pub mod Rows
pub mod Cases
pub mod Survey
pub mod Called
pub mod Example
pub mod Reordered
pub mod Returned
