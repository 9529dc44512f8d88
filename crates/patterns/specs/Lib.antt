pub mod Turns
pub mod Readings
pub mod Rooms
