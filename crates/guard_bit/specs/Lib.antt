pub mod Bit
