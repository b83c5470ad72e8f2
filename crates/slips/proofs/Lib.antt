pub mod Filling
pub mod Wording
pub mod Sizing
pub mod Cutting
