pub mod Signatures
pub mod References
