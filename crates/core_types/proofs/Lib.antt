pub mod Walks
pub mod Substituted
