pub mod Runs
pub mod Layouts
pub mod Fits
pub mod Marks
pub mod Empty
