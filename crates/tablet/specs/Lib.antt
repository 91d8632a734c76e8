pub mod AskedTold
pub mod Parts
pub mod Moves
pub mod Rows
pub mod LentDeck
