pub mod Converting
pub mod Converts
