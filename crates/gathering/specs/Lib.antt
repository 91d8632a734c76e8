pub mod LiveRows
pub mod LiveText
pub mod Kept
