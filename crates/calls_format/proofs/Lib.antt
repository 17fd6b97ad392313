pub mod Formats
pub mod Ones
