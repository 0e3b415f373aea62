-- The laws, for this crate and for those above it.
pub mod Facts
pub mod Making
pub mod Handing
pub mod Worth
pub mod Rates
pub mod Results
