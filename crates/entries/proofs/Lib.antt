pub mod MoveStages
pub mod WatchStages
