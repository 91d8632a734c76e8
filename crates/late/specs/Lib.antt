pub mod Late
pub mod Settled
pub mod State
pub mod Values
