pub mod Lists
pub mod Nodes
pub mod Parts
