pub mod Blocks
pub mod Fields
pub mod Fresh
pub mod Seals
pub mod Places
