pub mod Keeps
pub mod Written
pub mod Heads
pub mod Here
