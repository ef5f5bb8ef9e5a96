pub mod Asked
pub mod Choosing
pub mod OneList
pub mod Visiting
pub mod Rises
pub mod Walking
mod Copied
mod Ends
mod Found
mod Seeking
