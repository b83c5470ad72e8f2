pub mod Words
pub mod Slip
pub mod Writing
pub mod Telling
