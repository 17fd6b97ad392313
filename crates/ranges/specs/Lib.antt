pub mod Modes
pub mod Ranges
pub mod Laws
pub mod Says
