pub mod Room
pub mod Shared
