pub mod Reader
pub mod Guard
pub mod Group
pub mod Judgements
pub mod Shape
pub mod Checks
pub mod Reading
