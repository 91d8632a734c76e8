pub mod Judging
pub mod SeatsStage
pub mod Counted
pub mod FirstRefusal
pub mod Bytes
pub mod Heads
