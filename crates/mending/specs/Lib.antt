pub mod Mending
pub mod Accepted
pub mod Rules
pub mod FateBy
