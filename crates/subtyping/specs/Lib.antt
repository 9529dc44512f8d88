pub mod Subtyping
