pub mod Bound
pub mod Rows
