pub mod Shapes
pub mod Fronts
pub mod Insts
pub mod Subs
pub mod Outs
pub mod Parts
pub mod Comparing
