pub mod Laws
pub mod Lowest
pub mod Counted
pub mod Adds
