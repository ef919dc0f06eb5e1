pub mod Weighed
pub mod Same
