pub mod Listed
pub mod Putting
pub mod Text
pub mod Entering
pub mod Faithful
