pub mod Spelling
pub mod Text
pub mod Few
