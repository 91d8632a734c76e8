pub mod Spent
pub mod Building
pub mod Ways
pub mod Chains
