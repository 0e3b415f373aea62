-- The laws, for this crate and for those above it.
pub mod Answers
pub mod RoundTrips
