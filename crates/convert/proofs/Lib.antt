pub mod Entry
mod Walk
mod Bodies
mod Storing
