pub mod General
pub mod Metadata
pub mod Files
pub mod Folders
pub mod Links
pub mod Climbs
pub mod Few
pub mod Check
