pub mod Path
pub mod Leaves
