pub mod Asks
pub mod Modes
pub mod Afterwards
pub mod Solid
pub mod Answers
pub mod Calls
pub mod Example
