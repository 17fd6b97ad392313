pub mod Courses
pub mod Moves
pub mod Asks
pub mod Decisions
pub mod Ones
