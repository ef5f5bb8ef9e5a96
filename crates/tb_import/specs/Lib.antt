pub mod Prelude
pub mod Leaving
pub mod Firsts
pub mod Planned
