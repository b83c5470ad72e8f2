pub mod Turning
pub mod Looping
pub mod Cutting
pub mod Judging
