pub mod Calls
pub mod Places
pub mod Ones
