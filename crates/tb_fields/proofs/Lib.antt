pub mod Places
pub mod Parts
pub mod Relations
pub mod Twice
pub mod Ascents
pub mod Firsts
