pub mod Works
pub mod Turns
