pub mod Bytes
pub mod Ones
