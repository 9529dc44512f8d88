pub mod Applied
pub mod Outs
pub mod Entries
