pub mod Judged
pub mod FirstWrong
pub mod Written
pub mod Kept
pub mod Looked
pub mod DeckStages
pub mod Lookups
pub mod ContentsOnly
