-- The laws.
pub mod Crossings
