pub mod Values
pub mod Sights
