pub mod Digits
pub mod Spaces
