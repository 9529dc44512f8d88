pub mod Reading
pub mod Reaching
pub mod Judging
pub mod Stepping
