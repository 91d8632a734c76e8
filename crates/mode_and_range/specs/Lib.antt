pub mod ModeRange
