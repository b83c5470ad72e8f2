pub mod Range
pub mod Sum
