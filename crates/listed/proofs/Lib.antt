pub mod Order
pub mod Seated
