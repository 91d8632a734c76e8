pub mod InOrder
pub mod OnePlace
pub mod Fields
pub mod Exactly
pub mod Entries
pub mod NoGaps
pub mod Offsets
