pub mod Claims
pub mod Passing
pub mod Whole
