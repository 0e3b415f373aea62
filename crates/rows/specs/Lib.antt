-- The definitions that the contracts cite.
pub mod Walked
pub mod Sieves
