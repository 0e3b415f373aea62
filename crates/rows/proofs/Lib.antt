-- The laws, for this crate and for those above it.
pub mod Walks
pub mod Facts
