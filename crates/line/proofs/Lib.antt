-- The laws, for this crate and for those above it.
pub mod Words
pub mod Decimals
pub mod Stores
pub mod Shapes
pub mod Answers
pub mod Examples
