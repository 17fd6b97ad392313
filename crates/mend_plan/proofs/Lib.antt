pub mod Records
pub mod Fates
pub mod Rooms
