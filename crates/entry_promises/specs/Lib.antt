pub mod Demands
pub mod Entries
pub mod ForC
pub mod Spectator
