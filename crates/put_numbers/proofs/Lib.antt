pub mod Backwards
