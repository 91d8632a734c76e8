pub mod Stored
pub mod Statements
pub mod Raised
