pub mod Create
pub mod Held
