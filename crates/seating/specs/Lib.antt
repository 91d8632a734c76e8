pub mod Judged
pub mod SeatsSaid
pub mod FirstRefusal
