pub mod Found
pub mod LiteralRead
pub mod GroupRead
