pub mod Signs
pub mod Bytes
pub mod Next
pub mod Holds
