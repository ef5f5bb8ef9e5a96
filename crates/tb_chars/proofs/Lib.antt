pub mod FirstBytes
pub mod Whites
