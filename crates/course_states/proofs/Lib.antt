pub mod Near
pub mod Calls
pub mod States
pub mod Steps
