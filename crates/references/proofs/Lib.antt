pub mod Signs
pub mod Cuts
pub mod Arrows
pub mod Parts
