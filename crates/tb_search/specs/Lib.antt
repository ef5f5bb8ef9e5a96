pub mod Prelude
pub mod Released
pub mod Picked
pub mod Visited
pub mod Searched
pub mod Ending
