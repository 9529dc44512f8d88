pub mod Arms
pub mod Rooms
