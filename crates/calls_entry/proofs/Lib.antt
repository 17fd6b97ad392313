pub mod Entries
pub mod Ones
