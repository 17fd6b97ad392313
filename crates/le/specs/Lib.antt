pub mod Le
pub mod Signed
