pub mod Reading
pub mod Ending
pub mod Starting
pub mod Finishing
pub mod Answering
