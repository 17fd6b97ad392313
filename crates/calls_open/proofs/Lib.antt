pub mod Opens
pub mod Ones
