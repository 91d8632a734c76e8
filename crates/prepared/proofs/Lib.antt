pub mod Entry
pub mod Preparing
