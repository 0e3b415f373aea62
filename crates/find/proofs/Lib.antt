-- The laws, for this crate and for those above it.
pub mod Checks
pub mod Counting
pub mod Hits
pub mod Walks
pub mod Tight
