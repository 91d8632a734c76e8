pub mod LentRooms
