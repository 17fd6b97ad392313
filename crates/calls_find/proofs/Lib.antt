pub mod Finds
pub mod Ones
