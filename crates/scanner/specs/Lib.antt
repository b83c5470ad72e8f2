pub mod Scanning
pub mod Layout
