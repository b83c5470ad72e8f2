pub mod Steps
pub mod Laying
pub mod Reading
