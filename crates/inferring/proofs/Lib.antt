pub mod Cases
pub mod Rooms
pub mod Views
