pub mod Laws
pub mod Seeking
pub mod Lookup
