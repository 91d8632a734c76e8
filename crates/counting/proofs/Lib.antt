pub mod Table
pub mod Weighed
