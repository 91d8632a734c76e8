pub mod Counts
pub mod ClassesStage
pub mod Line
pub mod Examples
