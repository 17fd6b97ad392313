pub mod Common
pub mod States
pub mod Entries
pub mod Folders
