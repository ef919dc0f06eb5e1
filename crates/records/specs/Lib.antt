pub mod Notation
pub mod Records
pub mod Refusals
pub mod Forms
pub mod Valid
pub mod Blank
