pub mod Inferring
pub mod Rooms
