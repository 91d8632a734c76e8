pub mod Adding
pub mod WrittenShort
pub mod Copies
pub mod ReducedShort
pub mod Examples
pub mod Told
pub mod Reductions
