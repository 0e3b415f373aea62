-- The laws, for this crate and for those above it.
pub mod Divisors
pub mod Facts
pub mod Passing
pub mod Fractions
pub mod Samples
pub mod NextHits
pub mod Readings
