pub mod Sparing
pub mod Calming
