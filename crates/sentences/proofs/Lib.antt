pub mod Fits
pub mod Rows
