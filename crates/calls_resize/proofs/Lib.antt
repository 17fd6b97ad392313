pub mod Resizes
