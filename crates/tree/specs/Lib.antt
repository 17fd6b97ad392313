pub mod Tree
pub mod Moves
