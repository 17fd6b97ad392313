pub mod Held
pub mod Creates
pub mod Ones
