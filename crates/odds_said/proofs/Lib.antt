pub mod Chance
pub mod Theorems
