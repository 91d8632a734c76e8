pub mod Steps
pub mod Answers
pub mod Lines
pub mod Counted
pub mod Front
