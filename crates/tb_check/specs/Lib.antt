pub mod Check
pub mod Input
pub mod Words
pub mod Faults
