pub mod Laws
pub mod Fields
pub mod Texts
pub mod Tests
pub mod Few
pub mod Bytes
