pub mod Lexed
pub mod Groups
pub mod Guards
pub mod Statements
pub mod RoundTrip
