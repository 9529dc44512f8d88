pub mod Latch
pub mod Entries
pub mod Zonking
pub mod Then
pub mod Start
