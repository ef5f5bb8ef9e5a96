pub mod Begun
pub mod Identified
pub mod Lacking
mod NoRow
mod OwnPaths
pub mod Pushed
