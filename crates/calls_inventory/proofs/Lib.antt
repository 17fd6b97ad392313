pub mod Answers
pub mod Lines
pub mod Ones
pub mod Outputs
pub mod Stands
pub mod Turns
