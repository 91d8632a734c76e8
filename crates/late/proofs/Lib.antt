pub mod Symmetric
pub mod Settling
pub mod ValueLaws
