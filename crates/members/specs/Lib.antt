pub mod Placed
pub mod Members
