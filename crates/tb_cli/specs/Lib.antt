pub mod Arguments
pub mod Fault
pub mod Help
pub mod Lines
pub mod Tree
pub mod View
