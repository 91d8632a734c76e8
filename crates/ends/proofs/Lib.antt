pub mod Sums
pub mod Adding
pub mod Laws
pub mod Ends
