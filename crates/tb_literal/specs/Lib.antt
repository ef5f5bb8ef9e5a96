pub mod Patterns
pub mod Literals
pub mod Items
pub mod Built
pub mod Refused
pub mod FaultText
