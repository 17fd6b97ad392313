pub mod Questions
pub mod Decisions
pub mod Rows
