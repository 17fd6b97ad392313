pub mod Types
pub mod Climbs
