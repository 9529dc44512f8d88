pub mod Checks
pub mod Rooms
