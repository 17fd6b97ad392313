pub mod Joins
pub mod Layouts
pub mod Places
