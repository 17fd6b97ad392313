pub mod Hash
pub mod Slots
