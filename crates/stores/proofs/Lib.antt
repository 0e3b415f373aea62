-- The laws of filling rows.
pub mod Hitting
pub mod Merges
