-- The laws, for this crate and for those above it.
pub mod Walks
pub mod Calls
pub mod Sampling
pub mod Same
pub mod Tight
