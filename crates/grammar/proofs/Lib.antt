pub mod Laws
pub mod Lines
pub mod Alone
pub mod Lengths
pub mod Names
pub mod Boundaries
mod Steps
