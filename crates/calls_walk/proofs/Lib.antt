pub mod Buffers
pub mod Turns
pub mod Follows
pub mod Runs
pub mod Ones
