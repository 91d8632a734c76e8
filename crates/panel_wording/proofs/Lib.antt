pub mod Laws
pub mod Moves
