pub mod Tells
pub mod Ones
