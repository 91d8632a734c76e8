pub mod Numbered
pub mod Begun
