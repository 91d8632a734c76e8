pub mod Signs
pub mod Ahead
pub mod Literals
pub mod Joined
pub mod Groups
