pub mod Read
pub mod Store
