pub mod GroupsAsked
pub mod KeptItems
pub mod SharedRead
pub mod OneRead
pub mod Language
pub mod Items
pub mod GuardRead
pub mod Pieces
