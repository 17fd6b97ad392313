pub mod Files
pub mod Ends
pub mod Lookups
