pub mod Calls
pub mod Contents
pub mod Checks
pub mod Ones
