pub mod Bytes
pub mod Digits
pub mod Marks
pub mod Kinds
pub mod Quick
