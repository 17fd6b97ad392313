pub mod Nodes
pub mod Loads
pub mod Rows
pub mod Names
pub mod Ranges
