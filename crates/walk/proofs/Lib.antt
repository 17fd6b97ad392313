pub mod Looks
pub mod Cuts
pub mod Walks
pub mod Ways
pub mod Chains
pub mod Joins
pub mod Texts
pub mod Symlinks
