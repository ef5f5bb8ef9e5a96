pub mod Needed
pub mod Prefiltered
