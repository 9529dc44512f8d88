pub mod Rows
mod Table
