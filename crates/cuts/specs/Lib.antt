pub mod Stores
pub mod Creates
pub mod Premise
pub mod Orders
pub mod Cuts
pub mod Traces
pub mod Answers
