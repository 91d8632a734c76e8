pub mod Judging
pub mod Still
pub mod Putting
pub mod Entering
