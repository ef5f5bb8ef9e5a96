pub mod Failing
pub mod Texts
pub mod Numbering
pub mod Parts
pub mod Bodied
pub mod SearchTexts
mod Causeless
mod Chained
mod Asked
mod Surviving
mod Rounds
mod InMemory
mod Joined
mod OrReply
mod Handed
mod Questioned
