pub mod Outcomes
pub mod FilledLaws
pub mod CardLaws
