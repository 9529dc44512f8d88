pub mod Book
pub mod Compared
