-- The definitions that the contracts of `count` cite.
pub mod Hits
pub mod Cuts
