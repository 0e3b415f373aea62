-- The laws, for this crate and for those above it.
pub mod Moves
pub mod Gaps
