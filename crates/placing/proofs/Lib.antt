pub mod Spotting
pub mod Parts
pub mod Rows
pub mod Inserted
pub mod Seeking
pub mod Placing
