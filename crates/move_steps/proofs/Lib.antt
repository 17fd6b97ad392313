pub mod Steps
pub mod Moves
