pub mod Asks
pub mod Answers
pub mod Outputs
pub mod General
