pub mod Clear
pub mod Rows
pub mod Says
pub mod Handles
pub mod Contents
