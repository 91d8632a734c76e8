pub mod Turned
pub mod Rounds
