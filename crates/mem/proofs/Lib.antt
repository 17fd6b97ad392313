pub mod Owned
pub mod Mems
pub mod Fields
