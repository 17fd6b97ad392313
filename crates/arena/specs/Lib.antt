pub mod Blocks
pub mod Fields
pub mod Places
