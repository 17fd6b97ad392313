pub mod Leads
pub mod Grammar
pub mod Names
pub mod Examples
