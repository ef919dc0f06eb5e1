pub mod Spelling
pub mod Lines
pub mod Steps
pub mod Text
pub mod LineFields
