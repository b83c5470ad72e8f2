pub mod Viewing
pub mod Adding
