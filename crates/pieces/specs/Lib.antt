pub mod Pieces
pub mod AsRust
pub mod Counts
pub mod Made
