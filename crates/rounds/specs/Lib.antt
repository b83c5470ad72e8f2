pub mod Held
pub mod State
pub mod Attempts
pub mod Sweeps
