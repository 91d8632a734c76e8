pub mod FirstRow
pub mod Moved
