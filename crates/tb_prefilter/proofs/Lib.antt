pub mod Substrings
pub mod Needed
pub mod Fields
pub mod Items
pub mod Gathered
pub mod Searched
