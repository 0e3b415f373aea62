-- The definitions that the contracts cite.
pub mod Sketches
pub mod Calls
pub mod Estimates
