pub mod Same
pub mod Computed
