pub mod Laws
pub mod Outcomes
pub mod Rows
