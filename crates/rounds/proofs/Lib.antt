pub mod Turned
pub mod Rows
pub mod Turns
pub mod Added
pub mod Begun
pub mod Taken
pub mod Newest
