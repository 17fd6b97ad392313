pub mod Common
pub mod Bytes
pub mod Steps
pub mod Ids
pub mod Nodes
