pub mod Tidying
pub mod Tidied
