-- The laws.
pub mod Outcomes
pub mod Refusing
pub mod Tight
pub mod Engines
pub mod Zeros
pub mod Stretching
