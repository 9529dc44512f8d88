pub mod Names
pub mod Binders
pub mod Openings
