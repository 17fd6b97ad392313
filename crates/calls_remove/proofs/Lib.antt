pub mod Parts
pub mod Removes
