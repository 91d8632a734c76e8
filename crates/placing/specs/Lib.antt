pub mod Lower
pub mod Inserts
pub mod Free
