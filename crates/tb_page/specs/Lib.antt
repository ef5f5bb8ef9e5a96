pub mod Answered
pub mod Checked
pub mod Files
pub mod Guard
pub mod Heads
pub mod Lists
pub mod Paths
pub mod Visits
