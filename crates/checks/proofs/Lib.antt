pub mod Refusals
pub mod Counts
pub mod OtherForms
pub mod RowLaws
pub mod RowLoops
pub mod Numbered
pub mod RowsInTurn
