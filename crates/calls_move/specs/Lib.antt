pub mod Parts
pub mod Plans
pub mod Courses
