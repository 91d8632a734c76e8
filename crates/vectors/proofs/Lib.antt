pub mod Laws
pub mod Moved
pub mod Updated
pub mod Positions
