pub mod Sounds
pub mod Chains
