pub mod Tables
pub mod Kept
pub mod Keywords
pub mod Csv
pub mod FaultList
