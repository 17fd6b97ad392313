pub mod Mendable
pub mod Mend
pub mod Room
pub mod Lasts
pub mod Promises
