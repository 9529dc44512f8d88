pub mod Rooms
pub mod Stepping
