pub mod Shared
pub mod Writing
pub mod ReducedText
pub mod Copies
pub mod Lengths
