pub mod Course
pub mod Summaries
pub mod Fine
pub mod Slots
pub mod Playing
pub mod Sums
pub mod Commanded
