-- The laws, for this crate and for those above it.
pub mod Fields
pub mod Puts
pub mod Bodies
pub mod Chains
pub mod Turns
pub mod Spelling
pub mod Limits
