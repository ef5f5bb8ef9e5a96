pub mod Bits
pub mod Hits
pub mod Match
pub mod Stays
pub mod Trees
pub mod Facts
pub mod Weight
pub mod Possible
