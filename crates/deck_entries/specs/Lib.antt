pub mod Rows
pub mod Verdicts
