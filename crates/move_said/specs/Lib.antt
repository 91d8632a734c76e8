pub mod MoveSaid
