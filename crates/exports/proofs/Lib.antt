pub mod Front
pub mod Says
