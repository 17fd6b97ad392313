pub mod Texts
pub mod Paths
pub mod Spans
pub mod Turns
