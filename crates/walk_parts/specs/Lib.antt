pub mod Texts
pub mod States
