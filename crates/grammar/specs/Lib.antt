pub mod Grammar
pub mod Counted
pub mod Rules
pub mod Verdicts
