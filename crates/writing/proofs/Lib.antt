pub mod Laws
pub mod Sheets
pub mod Words
pub mod Rows
