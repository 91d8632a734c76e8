pub mod FirstMove
pub mod FirstTaken
pub mod Shown
