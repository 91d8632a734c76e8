pub mod SeatsSeen
