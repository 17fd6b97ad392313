pub mod Clears
pub mod Searches
