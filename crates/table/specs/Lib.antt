pub mod Zero
pub mod Table
pub mod Formed
