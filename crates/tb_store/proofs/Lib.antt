pub mod Beginning
pub mod SixTotals
pub mod Represented
pub mod Adopted
pub mod Migrated
pub mod Lasting
pub mod Blamed
pub mod Questions
pub mod Walks
pub mod Preparing
pub mod Netted
mod Reopened
mod Resumed
pub mod InMemory
