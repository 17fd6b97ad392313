pub mod Constants
pub mod Layout
pub mod Fits
pub mod Types
