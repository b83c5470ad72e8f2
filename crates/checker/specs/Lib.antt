pub mod Turns
pub mod Judgement
