-- The definitions that the contracts cite.
pub mod Around
pub mod Settling
