pub mod Gap
pub mod Live
pub mod Added
pub mod Free
pub mod NewDecks
pub mod Refusals
pub mod InPlace
pub mod TidiesFirst
