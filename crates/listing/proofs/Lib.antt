pub mod Laws
pub mod Rows
