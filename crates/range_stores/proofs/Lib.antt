pub mod Sources
pub mod Runs
pub mod Makes
pub mod Falls
pub mod Ups
pub mod Holes
