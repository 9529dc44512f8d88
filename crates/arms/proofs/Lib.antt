pub mod Rooms
pub mod Vars
pub mod Bodies
pub mod Cut
pub mod Narrow
pub mod Cases
