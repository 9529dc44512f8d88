pub mod Holdings
pub mod Turns
pub mod Words
pub mod Levels
pub mod Comparing
pub mod Links
pub mod Places
pub mod Ends
