pub mod Steps
pub mod Rooms
pub mod Entries
pub mod Opened
pub mod Lines
pub mod Patterns
