pub mod Binding
pub mod Showing
pub mod Walking
