pub mod Prelude
pub mod ReadOf
pub mod Working
pub mod Stepping
pub mod Correcting
pub mod Pulling
