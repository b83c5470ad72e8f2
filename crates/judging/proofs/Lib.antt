pub mod Storing
pub mod Facts
pub mod Asking
pub mod Passing
pub mod Seating
pub mod Widest
