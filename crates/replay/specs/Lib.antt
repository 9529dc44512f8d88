pub mod Parsing
pub mod Recorded
pub mod Reading
pub mod Replay
pub mod Lines
