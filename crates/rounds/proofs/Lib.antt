pub mod Moves
pub mod Trying
pub mod Passing
