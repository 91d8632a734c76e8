pub mod LiveDeck
pub mod Closing
pub mod Entering
