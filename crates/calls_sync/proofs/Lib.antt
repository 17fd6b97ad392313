pub mod Ones
pub mod Rooms
pub mod Syncs
