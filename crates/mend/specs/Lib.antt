pub mod Fated
