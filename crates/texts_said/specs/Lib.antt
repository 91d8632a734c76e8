pub mod WriteSaid
pub mod ReduceSaid
