-- The laws, for this crate and for those above it.
pub mod Around
pub mod Searches
pub mod Gathers
pub mod Settles
pub mod Cuts
pub mod Unions
