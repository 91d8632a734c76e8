pub mod Lines
pub mod Short
pub mod Theorems
pub mod Reordering
