pub mod Laws
pub mod Held
pub mod Both
