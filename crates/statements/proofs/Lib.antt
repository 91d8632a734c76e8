pub mod OwnPassed
pub mod GuardedLaws
pub mod StatementLaws
pub mod StatementsLaws
