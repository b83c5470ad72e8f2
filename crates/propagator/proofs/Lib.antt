pub mod Running
pub mod Planning
