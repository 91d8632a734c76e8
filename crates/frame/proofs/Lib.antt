pub mod SharedLaws
pub mod HeaderLaws
