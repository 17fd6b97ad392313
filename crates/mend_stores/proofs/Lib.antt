pub mod Places
pub mod Bytes
pub mod Puts
pub mod Frees
pub mod Records
pub mod Syncs
