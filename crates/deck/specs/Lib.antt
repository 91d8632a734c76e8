pub mod Contents
pub mod Deck
pub mod Lookup
pub mod Sound
pub mod Given
