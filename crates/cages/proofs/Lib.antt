pub mod Masking
