pub mod Wide
pub mod Ready
