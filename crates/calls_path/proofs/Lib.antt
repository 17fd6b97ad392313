pub mod Measures
pub mod Names
pub mod Spans
pub mod Answers
pub mod Leaves
