pub mod FirstRound
