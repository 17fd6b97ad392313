pub mod Finds
pub mod Runs
pub mod Blocks
pub mod Puts
pub mod Clears
