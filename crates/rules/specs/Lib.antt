pub mod Image
pub mod Rules
pub mod Tests
