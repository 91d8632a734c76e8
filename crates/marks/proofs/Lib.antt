pub mod Next
pub mod Starts
pub mod Words
