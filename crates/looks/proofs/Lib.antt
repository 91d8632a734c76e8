pub mod Words
pub mod Quick
