pub mod Prelude
pub mod Readable
pub mod Found
pub mod Streams
pub mod Failing
pub mod ReadOnly
pub mod Fetched
