pub mod Laws
pub mod PartLaws
pub mod ListLaws
pub mod Wholes
