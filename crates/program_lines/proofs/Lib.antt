pub mod Seats
pub mod Printing
