pub mod ReadingOf
pub mod Refusing
