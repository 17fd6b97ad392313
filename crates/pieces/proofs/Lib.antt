pub mod Pieces
pub mod Rust
pub mod Counts
pub mod Runs
pub mod Fronts
pub mod Ups
