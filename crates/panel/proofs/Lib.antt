pub mod Shown
pub mod Entry
pub mod Examples
pub mod SeatsLine
pub mod Parts
