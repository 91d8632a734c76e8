pub mod Judging
pub mod Structs
pub mod ReadInto
