pub mod Exactly
pub mod Stages
pub mod Entries
