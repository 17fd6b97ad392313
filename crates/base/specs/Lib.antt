pub mod Reasons
pub mod Out
pub mod Count
pub mod Search
pub mod Parts
pub mod Decides
pub mod Told
