pub mod Spells
pub mod Marked
