pub mod Summing
pub mod Slackening
