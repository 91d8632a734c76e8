pub mod Left
pub mod Numbers
mod Rows
pub mod Notes
pub mod Text
