pub mod Pastes
pub mod Decimals
pub mod Backwards
pub mod Escaped
pub mod Lines
