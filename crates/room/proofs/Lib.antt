pub mod Laws
pub mod Decimal
pub mod Entries
pub mod Stores
pub mod Drafts
