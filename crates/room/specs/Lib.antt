pub mod Room
pub mod Digits
pub mod Answer
