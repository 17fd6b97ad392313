pub mod Recoveries
pub mod Upheld
pub mod UpheldCalls
pub mod Keeps
pub mod Fresh
pub mod Mends
pub mod Sequences
pub mod Example
