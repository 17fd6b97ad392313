pub mod Decides
pub mod Payloads
pub mod Planned
pub mod Plans
pub mod Puts
