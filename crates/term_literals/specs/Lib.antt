pub mod Wanted
pub mod TermRead
