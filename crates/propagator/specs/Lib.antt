pub mod Runs
pub mod Plans
