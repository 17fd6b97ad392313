pub mod Walks
pub mod Long
pub mod Example
