pub mod Texts
pub mod Spelt
pub mod Put
