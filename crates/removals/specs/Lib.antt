pub mod Picks
pub mod Removals
