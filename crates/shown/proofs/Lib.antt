pub mod InOrder
pub mod Telling
