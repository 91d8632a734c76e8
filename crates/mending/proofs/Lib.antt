pub mod Kept
pub mod Fates
pub mod MendStage
pub mod Unchanged
pub mod Mended
pub mod Rules
pub mod Again
