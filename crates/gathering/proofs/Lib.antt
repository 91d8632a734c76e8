pub mod Entries
pub mod Counting
pub mod Ahead
pub mod Bodies
pub mod Rows
pub mod Keeping
pub mod KeptDeck
