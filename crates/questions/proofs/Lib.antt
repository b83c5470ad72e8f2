pub mod Questions
pub mod Ranges
pub mod Members
