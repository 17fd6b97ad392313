pub mod Asks
pub mod Ones
