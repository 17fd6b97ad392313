pub mod Views
pub mod Chains
