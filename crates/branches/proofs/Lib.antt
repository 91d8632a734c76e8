pub mod Updates
pub mod SettingLaws
pub mod BranchLaws
