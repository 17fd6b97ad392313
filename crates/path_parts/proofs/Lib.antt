pub mod Folders
pub mod Namers
