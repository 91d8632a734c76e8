pub mod Chances
pub mod Chance
pub mod Rows
