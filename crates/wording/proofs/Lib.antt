pub mod Samples
pub mod Laws
pub mod Pieces
pub mod Fits
pub mod Near
