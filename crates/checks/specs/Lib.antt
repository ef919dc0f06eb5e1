pub mod Rows
pub mod RowChecks
pub mod RowsInTurn
