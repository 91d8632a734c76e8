pub mod Question
pub mod Meant
pub mod Asking
pub mod AsWritten
