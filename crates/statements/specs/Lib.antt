pub mod StatementHead
pub mod OneStatement
pub mod Statements
