pub mod Counts
pub mod Halves
pub mod Nodes
