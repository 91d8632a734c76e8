pub mod Phrases
pub mod Puts
