pub mod Path
pub mod Spans
pub mod Laws
