pub mod Splits
pub mod Spots
pub mod Alongs
pub mod Entries
