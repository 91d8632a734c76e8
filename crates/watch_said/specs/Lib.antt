pub mod WatchSaid
pub mod Watches
