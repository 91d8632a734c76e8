pub mod Numbered
pub mod Stands
pub mod Aims
