pub mod Mem
pub mod State
