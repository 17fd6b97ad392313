pub mod Loads
pub mod Records
