pub mod Lines
pub mod Parts
pub mod KeptBy
pub mod Mends
