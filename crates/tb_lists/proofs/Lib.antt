pub mod Located
pub mod Makers
mod NoMakers
pub mod ShownLines
pub mod Summed
pub mod Sums
