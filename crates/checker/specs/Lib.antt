pub mod Calling
pub mod Answered
