pub mod Survey
pub mod Filling
pub mod Checks
pub mod Answer
pub mod Passed
