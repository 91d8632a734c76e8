pub mod Clips
pub mod Blocks
