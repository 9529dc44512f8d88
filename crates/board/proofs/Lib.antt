pub mod Stacks
pub mod Laying
pub mod Finds
pub mod Terms
pub mod Heads
