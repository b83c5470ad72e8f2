pub mod Slack
pub mod Calm
pub mod Standing
