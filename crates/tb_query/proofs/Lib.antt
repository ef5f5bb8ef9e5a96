pub mod Attachments
pub mod Variants
pub mod Numbering
pub mod Refusals
pub mod Queries
pub mod OneReading
pub mod TextsInOrder
pub mod AnyText
mod AskerLemmas
mod TableLemmas
mod Alike
